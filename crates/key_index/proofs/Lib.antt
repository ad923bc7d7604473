pub mod Changing
pub mod Events
pub mod Exchanging
pub mod Kept
pub mod Passing
pub mod Places
pub mod Walking
