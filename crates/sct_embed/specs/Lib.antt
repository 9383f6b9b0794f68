-- The definitions of an embedded site.
pub mod Asking
pub mod ByBanks
pub mod Calls
pub mod Counts
pub mod Embeddings
pub mod Faults
pub mod Following
pub mod Laws
pub mod Questions
pub mod Reading
pub mod Restoring
pub mod Sending
pub mod Shelves
pub mod Showing
pub mod Taking
