-- The lemmas of written messages.
pub mod AgainLemmas
pub mod AmountLemmas
pub mod ReadAgainLemmas
pub mod TextValues
pub mod Utf8Lemmas
pub mod ValueLemmas
