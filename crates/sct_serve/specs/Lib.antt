-- The definitions of the command that serves a site.
pub mod Lives
pub mod Replies
pub mod Serving
