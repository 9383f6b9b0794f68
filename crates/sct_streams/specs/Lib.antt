-- The definitions of streams of bytes, and of files.
pub mod Files
pub mod Stream
pub mod Whole
