mod Lists
mod Orders
mod Walks
