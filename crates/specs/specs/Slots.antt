-- Slots: their values and channels, and the tables of them.
pub mod Maps
pub mod Column
pub mod Clones
pub mod Readers
pub mod ChannelCalls
pub mod Table
pub mod Ids
pub mod Marks
pub mod Registering
