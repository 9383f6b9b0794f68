-- The lemmas of a place that keeps a site.
pub mod AddressLemmas
pub mod PlaceLemmas
pub mod RowOfSite
