pub mod Algebra
pub mod Chains
pub mod Table
pub mod View
