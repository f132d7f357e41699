pub mod Basis
pub mod Groups
pub mod Meaning
pub mod Sections
pub mod View
