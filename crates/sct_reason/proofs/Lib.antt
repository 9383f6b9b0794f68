-- The files of lemmas of this crate.
mod Others
mod Rows
