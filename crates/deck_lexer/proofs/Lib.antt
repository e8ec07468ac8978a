pub mod WordLemmas
pub mod SplitLemmas
pub mod LineLemmas
pub mod CardLemmas
pub mod DraftLemmas
pub mod ReadLemmas
pub mod LeftLemmas
