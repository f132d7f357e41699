pub mod Counts
pub mod Layering
pub mod Running
pub mod Searching
pub mod Trails
