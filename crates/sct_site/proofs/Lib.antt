-- The lemmas of one site, of beginnings of its history, and of the step by which that grows.
pub mod AboveLemmas
pub mod AcceptLemmas
pub mod Adding
pub mod ArrivalLemmas
pub mod Arriving
pub mod CutRangeLemmas
pub mod HeldLemmas
pub mod MessageLemmas
pub mod NextLemmas
pub mod Prefixes
pub mod RangeLemmas
pub mod SiteLemmas
pub mod TakeLemmas
