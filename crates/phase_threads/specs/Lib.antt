pub mod Seating
pub mod Phases
pub mod PhaseLaws
pub mod Calling
