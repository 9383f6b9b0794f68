-- The definitions of the JSON form.
pub mod Faults
pub mod Form
pub mod KeyLookups
pub mod Keys
pub mod Line
pub mod Members
pub mod Names
pub mod Objects
pub mod Places
pub mod Reading
pub mod Writing
