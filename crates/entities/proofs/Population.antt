pub mod Steps
pub mod Lowers
pub mod Merging
pub mod Upcoming
pub mod Givable
