-- The lemmas behind the streams of bytes.
mod Adapters
mod Fronts
pub mod StreamLemmas
