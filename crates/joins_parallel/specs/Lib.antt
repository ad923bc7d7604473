pub mod Replacing
pub mod InPlace
pub mod Cutting
pub mod Sharing
