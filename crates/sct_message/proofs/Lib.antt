-- Lemmas: those that serve this crate alone, and those that the crates above cite too.
mod AllRules
mod FirstBroken
mod KindTable
mod LastRules
mod LongLists
mod Names
mod RecallRows
pub mod AscendingLemmas
pub mod Members
pub mod SameValues
pub mod Tests
