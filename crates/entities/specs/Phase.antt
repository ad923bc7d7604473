-- The shared phase.
pub mod Reserve
pub mod Trace
pub mod Rule
pub mod Plan
pub mod Board
pub mod Calls
pub mod Given
pub mod Laws
pub mod Opened
pub mod Lending
