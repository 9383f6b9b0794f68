-- The definitions of journals in files.
pub mod Disks
pub mod Fronts
pub mod Hosts
pub mod Kept
pub mod Openings
pub mod Parts
pub mod Settled
