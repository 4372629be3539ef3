mod Noted
mod Moves
mod Numbering
mod Alike
mod First
mod Stays
