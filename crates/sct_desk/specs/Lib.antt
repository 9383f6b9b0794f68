-- The definitions of desks.
pub mod Answering
pub mod Faults
pub mod HeldOk
pub mod Locked
pub mod Openings
pub mod Passes
pub mod Rules
pub mod Tilings
