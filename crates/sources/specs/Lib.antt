pub mod Source
pub mod Cut
pub mod Lowered
pub mod Snapshot
