-- The definitions of entries, deltas and logs.
pub mod Entries
pub mod Faults
pub mod Inside
pub mod Laws
pub mod Logs
pub mod Refusals
pub mod Shelves
pub mod Vectors
pub mod Shapes
pub mod Sites
pub mod VectorLaws
pub mod TextLines
pub mod EntryText
pub mod GroupText
pub mod DeltaText
pub mod VectorText
