-- The definitions of a site whose journal is on a disk.
pub mod Keepers
pub mod Replays
