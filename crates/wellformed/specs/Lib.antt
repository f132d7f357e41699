pub mod Events
pub mod Faults
pub mod Walk
pub mod WellFormed
