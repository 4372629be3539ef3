mod Lists
mod Spreads
