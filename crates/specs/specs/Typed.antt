-- Calls by component types.
pub mod Shows
pub mod Shown
pub mod Field
pub mod Finds
pub mod Writing
