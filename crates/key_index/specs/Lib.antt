pub mod Indexed
pub mod Indices
pub mod Keys
