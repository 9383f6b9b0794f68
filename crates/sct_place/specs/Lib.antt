-- The definitions of a place that keeps a site.
pub mod Codes
pub mod Handles
pub mod Keeping
pub mod Lending
pub mod Outcomes
pub mod Places
pub mod Reasons
pub mod Values
