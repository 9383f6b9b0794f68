-- What the laws of parts that are apart are proved by.
pub mod ApartLemmas
pub mod ArchiveLemmas
pub mod ContradictionLemmas
pub mod ManyLemmas
pub mod Members
pub mod RowLemmas
pub mod SumsLemmas
pub mod TogetherLemmas
pub mod TransferLemmas
pub mod TwiceLemmas
