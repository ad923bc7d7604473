mod Counting
pub mod Inserted
pub mod Further
pub mod Carrying
pub mod Lasting
pub mod Runs
pub mod Gone
pub mod Values
pub mod Marked
pub mod Going
pub mod Kept
pub mod Written
pub mod Loading
pub mod Phases
pub mod AllDie
pub mod Following
pub mod Covering
pub mod Repeating
