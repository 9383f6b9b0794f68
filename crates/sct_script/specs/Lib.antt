-- The definitions of scripts.
pub mod Events
pub mod Replays
pub mod Scripts
