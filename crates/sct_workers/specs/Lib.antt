-- The definitions of workers, of the receipts that they keep, of the sites that they fill and of several sites.
pub mod Each
pub mod Exchanging
pub mod Faults
pub mod Files
pub mod Filling
pub mod Holds
pub mod Kept
pub mod Points
pub mod Reported
pub mod Shown
pub mod Stands
