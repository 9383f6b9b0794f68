-- The definitions of the view.
pub mod Answers
pub mod Changes
pub mod Filed
pub mod Kept
pub mod Laws
pub mod Listed
pub mod StatusText
pub mod Sums
pub mod Totals
pub mod TotalsText
pub mod Touched
