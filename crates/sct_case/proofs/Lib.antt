-- The proofs of findings and statuses.
pub mod AnyOrder
pub mod Exact
pub mod InOrder
pub mod Instructed
pub mod Judged
pub mod Lists
pub mod LookedUp
pub mod Membership
pub mod OfOneRecall
pub mod RecallSentences
pub mod SaidOf
pub mod SaidOn
pub mod Same
pub mod Sentences
pub mod Stays
