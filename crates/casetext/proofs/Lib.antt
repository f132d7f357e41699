mod Accepting
mod Doing
mod Scanning
mod Looping
mod Refusing
pub mod Listing
mod Building
mod Backward
pub mod Forward
pub mod Roundtrip
