-- The lemmas of workers, of the receipts that they keep and of the sites that they fill.
pub mod FilledMore
pub mod Holding
pub mod KeepLemmas
pub mod MoreKept
pub mod Places
pub mod Refusing
pub mod ReportLemmas
pub mod StandLemmas
