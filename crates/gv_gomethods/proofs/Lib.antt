mod Growth
mod Ones
