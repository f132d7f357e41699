mod Laying
mod Spelled
mod Gathering
pub mod Returning
