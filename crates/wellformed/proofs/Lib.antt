mod Counting
pub mod Deciding
mod First
mod Limits
pub mod Locking
mod Rows
pub mod Walking
