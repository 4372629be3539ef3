mod Lists
mod Searches
