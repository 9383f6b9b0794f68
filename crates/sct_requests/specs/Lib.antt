-- The definitions of requests to a site.
pub mod Grants
pub mod Laws
pub mod Questions
pub mod Steps
pub mod WatchedSites
pub mod Words
