-- The lemmas of digests.
pub mod ChainLemmas
pub mod KeepingLemmas
pub mod ApartLemmas
pub mod TextLemmas
