-- What the calls of a world make of its entities and components.
pub mod Sets
pub mod People
pub mod State
pub mod Marking
pub mod Refused
pub mod Dropping
pub mod Lending
