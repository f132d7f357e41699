pub mod Cells
pub mod Climbing
pub mod Fencing
pub mod Gathering
pub mod Joining
pub mod Largest
pub mod Tabling
pub mod Turning
