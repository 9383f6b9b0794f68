pub mod LineLemmas
pub mod DiskLemmas
pub mod AppendLemmas
pub mod RecoverLemmas
pub mod FrontLemmas
pub mod MakingLemmas
pub mod OpeningLemmas
