mod Closing
mod Filling
mod Grouping
pub mod Members
