pub mod Meeting
pub mod Settings
