-- The definitions of the archive.
pub mod Archive
pub mod Buckets
pub mod Contents
pub mod Contradictions
pub mod Digest
pub mod Drafts
pub mod Filing
pub mod Groups
pub mod Laws
pub mod LineOrder
pub mod Pieces
pub mod Places
