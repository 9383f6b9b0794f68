-- The lemmas of desks.
pub mod Arrived
pub mod Showing
pub mod Tellings
pub mod Updates
