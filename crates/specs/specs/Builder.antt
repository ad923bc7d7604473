-- Builders of entities.
pub mod Building
pub mod LazyBuilding
pub mod Creating
