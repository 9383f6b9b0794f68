-- The definitions that contracts cite.
pub mod Again
pub mod CommandLine
pub mod Ending
pub mod Engine
pub mod Exchanging
pub mod Fault
pub mod Mistakes
pub mod Places
pub mod Request
pub mod Runs
pub mod Stream
pub mod Tasks
