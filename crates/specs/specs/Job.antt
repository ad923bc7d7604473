-- The queue of jobs, and the steps of a world.
pub mod Queue
pub mod Repeating
pub mod Jobs
pub mod Steps
