pub mod Scene
pub mod Law
pub mod First
pub mod ByRow
pub mod Rounds
pub mod Sheet
pub mod Deciding
pub mod Joint
