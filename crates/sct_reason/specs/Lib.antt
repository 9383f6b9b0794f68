-- The files of definitions of this crate.
pub mod Codes
pub mod Listed
pub mod ReasonLaws
pub mod Reasons
pub mod Uses
