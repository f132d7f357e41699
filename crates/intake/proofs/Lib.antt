pub mod Unsealed
