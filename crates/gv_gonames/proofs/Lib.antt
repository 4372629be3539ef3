mod Kept
mod Lookups
