pub mod Laid
pub mod Written
pub mod Listing
