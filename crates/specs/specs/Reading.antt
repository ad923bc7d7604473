-- What the readers of a slot's events learn of it.
pub mod Leading
pub mod Leads
pub mod Following
pub mod Telling
pub mod Advancing
pub mod OneSlot
