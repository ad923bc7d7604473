pub mod Sets
pub mod Stack
pub mod Room
