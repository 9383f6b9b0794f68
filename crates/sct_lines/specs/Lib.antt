-- The definitions of lines.
pub mod Blocks
pub mod LineLaws
pub mod Lines
pub mod Parts
pub mod Refused
