pub mod Moving
pub mod Spreads
pub mod Spot
