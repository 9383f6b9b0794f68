-- The definitions that contracts cite.
pub mod Faults
pub mod Run
pub mod Serves
