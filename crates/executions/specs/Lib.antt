pub mod Sorts
pub mod Events
pub mod Ties
pub mod Faults
pub mod Execution
pub mod Words
