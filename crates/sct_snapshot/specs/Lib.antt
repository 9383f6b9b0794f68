-- Snapshots of a site.
pub mod Blocks
pub mod Moments
