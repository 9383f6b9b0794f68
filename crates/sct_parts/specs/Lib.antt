-- The definitions of parts of a set of messages, and the laws of parts that are apart.
pub mod Parts
pub mod PartsLaws
