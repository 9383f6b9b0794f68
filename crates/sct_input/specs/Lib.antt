-- The definitions of inputs.
pub mod Inputs
