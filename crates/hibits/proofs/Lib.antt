pub mod CountLemmas
pub mod FirstLemmas
pub mod MemberLemmas
pub mod PageLemmas
pub mod RowLemmas
pub mod StepLemmas
pub mod WalkLemmas
pub mod WordLemmas
