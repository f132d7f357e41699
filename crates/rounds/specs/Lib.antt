pub mod Layers
pub mod Marks
pub mod Rounds
pub mod View
