pub mod Text
pub mod Reading
pub mod Entered
pub mod Promises
