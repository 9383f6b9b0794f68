-- The lemmas of the archive.
pub mod AgainstLemmas
pub mod ArchiveLemmas
pub mod BucketLemmas
pub mod CalmLemmas
pub mod ContentsLemmas
pub mod GroupLemmas
pub mod IndexLemmas
pub mod LawLemmas
pub mod TextLemmas
pub mod UndisputedLemmas
