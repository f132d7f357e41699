mod Columns
mod Turns
