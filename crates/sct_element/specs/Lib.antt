-- The files of definitions of this crate.
pub mod Account
pub mod Bank
pub mod Date
pub mod Faults
pub mod Identification
pub mod Money
pub mod Party
pub mod Settles
pub mod Text
