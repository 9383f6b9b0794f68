-- The lemmas of worlds.
pub mod AgainLemmas
pub mod CoreLemmas
pub mod ExactlyLemmas
pub mod HandLemmas
pub mod HandedLemmas
pub mod KeepLemmas
pub mod KeptLemmas
pub mod LawLemmas
pub mod NewLemmas
pub mod NoForkLemmas
pub mod OpenLemmas
pub mod SettledLemmas
pub mod StateLemmas
pub mod ValueLemmas
pub mod WorldLemmas
