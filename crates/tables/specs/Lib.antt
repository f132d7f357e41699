pub mod Plain
pub mod Tables
