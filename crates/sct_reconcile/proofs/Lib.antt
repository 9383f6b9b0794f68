-- The lemmas of lists and reports.
pub mod FiledLemmas
pub mod ListLemmas
pub mod MatchLemmas
pub mod ReadBack
pub mod RecordLemmas
pub mod ReportLemmas
pub mod RowLemmas
pub mod WrittenLemmas
