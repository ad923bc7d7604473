pub mod Joined
pub mod Listed
pub mod Paged
pub mod Table
