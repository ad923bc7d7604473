mod Values
pub mod Results
pub mod Slot
pub mod Dense
pub mod Removals
pub mod Null
pub mod SliceLends
pub mod Indices
pub mod Unread
pub mod Readers
pub mod Walked
pub mod Telling
pub mod Unordered
