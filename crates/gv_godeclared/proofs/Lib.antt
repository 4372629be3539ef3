mod Bares
mod Lists
mod Whole
