-- The lemmas behind the lines.
pub mod FeedLemmas
pub mod LineLawLemmas
pub mod LineLemmas
pub mod PartLemmas
mod TextLemmas
