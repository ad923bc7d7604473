pub mod BesideLemmas
pub mod CallLemmas
pub mod ChangeCallLemmas
pub mod CursorLemmas
pub mod FoldLemmas
pub mod Holding
pub mod PassedLemmas
pub mod TakeLemmas
