pub mod Holding
mod Sourcing
mod Tying
