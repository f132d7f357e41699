pub mod Cycles
pub mod Keys
pub mod Places
pub mod View
pub mod Walks
