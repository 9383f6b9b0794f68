-- The definitions of one site and of its history.
pub mod Cores
pub mod Inside
pub mod Laws
pub mod Ranges
pub mod Rules
pub mod Sights
