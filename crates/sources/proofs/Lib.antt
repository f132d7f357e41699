pub mod Copying
mod Layers
