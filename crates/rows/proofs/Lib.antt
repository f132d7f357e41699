pub mod Any
pub mod Bits
pub mod Words
