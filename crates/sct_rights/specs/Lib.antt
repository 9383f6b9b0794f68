-- The definitions of what is done in the name of banks.
pub mod ByBanks
pub mod Laws
pub mod Listing
pub mod Reported
pub mod Rights
pub mod Sent
pub mod Shown
