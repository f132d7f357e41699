pub mod Relays
pub mod Rows
pub mod Turns
pub mod Fences
