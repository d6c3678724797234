pub mod CauseLemmas
pub mod DraftLemmas
pub mod PlaceholderLemmas
pub mod ReadLemmas
pub mod OpenLemmas
pub mod UnencodedLemmas
pub mod RowLemmas
pub mod Chaining
