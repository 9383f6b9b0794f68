-- What the functions and the laws of what is kept are proved by.
pub mod ChainLemmas
pub mod DoneLemmas
pub mod KeepLemmas
pub mod MarkLemmas
pub mod SplitLemmas
pub mod TieLemmas
pub mod TreeLemmas
