-- The lemmas of an embedded site.
pub mod CountsLemmas
pub mod EntryLemmas
pub mod FollowLemmas
pub mod ReadingLemmas
pub mod SetLemmas
pub mod ShelfLemmas
pub mod ShownLemmas
pub mod TakingLemmas
pub mod WatchLemmas
