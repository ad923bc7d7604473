-- What holds of every run, and of every state that it reaches.
pub mod Reached
pub mod Gone
pub mod Evolving
pub mod Living
pub mod Going
pub mod GoingLaws
pub mod Runs
pub mod Lawful
pub mod Keeping
