pub mod Held
pub mod Model
pub mod Rules
pub mod View
