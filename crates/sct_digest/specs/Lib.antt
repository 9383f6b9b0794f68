-- The digests of what a site holds.
pub mod Digests
pub mod Keeping
pub mod Laws
