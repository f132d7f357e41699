pub mod Names
pub mod Pages
pub mod Rules
pub mod Rulings
pub mod Shapes
pub mod Steps
pub mod Tables
