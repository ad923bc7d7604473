pub mod Puts
pub mod Ends
