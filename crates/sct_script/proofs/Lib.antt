-- The lemmas of scripts.
pub mod ReplayLemmas
pub mod ScriptLemmas
