pub mod Slots
pub mod World
pub mod Job
pub mod Typed
pub mod Builder
pub mod Reading
pub mod Laws
pub mod Indexing
