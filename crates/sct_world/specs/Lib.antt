-- The definitions of worlds.
pub mod Answers
pub mod Closed
pub mod Faults
pub mod Happenings
pub mod Histories
pub mod Inside
pub mod Laws
pub mod Settling
pub mod SettlingLaws
pub mod States
pub mod Taken
