-- The version as a number.
pub mod Numbers
