pub mod Cutting
pub mod Numbering
pub mod Wording
pub mod Spelling
