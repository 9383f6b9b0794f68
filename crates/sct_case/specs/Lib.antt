-- The definitions of findings and of the statuses of transfers and recalls.
pub mod AnyOrder
pub mod Findings
pub mod Inside
pub mod Laws
pub mod RecallSentences
pub mod Said
pub mod Sentences
pub mod Statuses
pub mod Told
pub mod Words
