-- The lemmas of the service of a site.
pub mod LeaveLemmas
pub mod LifeLemmas
pub mod PieceLemmas
pub mod QuestionLemmas
pub mod ReplyLemmas
