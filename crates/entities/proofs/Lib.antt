pub mod Kept
pub mod Population
pub mod Lists
pub mod Phases
