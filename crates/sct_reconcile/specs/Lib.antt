-- The definitions of lists and reports.
pub mod Filed
pub mod Laws
pub mod Lists
pub mod Reports
pub mod Turns
pub mod Words
pub mod Writers
