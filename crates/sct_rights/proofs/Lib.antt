-- What the functions and the laws of what is done in the name of banks are proved by.
pub mod BankLemmas
pub mod LeakLemmas
pub mod ListingLemmas
pub mod PickedLemmas
pub mod PlaceLemmas
pub mod ReportLemmas
pub mod RuleLemmas
pub mod SaidLemmas
pub mod SentLemmas
pub mod ShowingLemmas
pub mod TheirsLemmas
pub mod TruthLemmas
pub mod VisibleLemmas
