-- The definitions of hubs of sites that last, and of hubs of programs that embed a site.
pub mod Embedded
pub mod EmbeddedLaws
pub mod EqualDigests
pub mod Hubs
pub mod Laws
pub mod Lives
pub mod OneOrigin
pub mod ReadBack
pub mod Restored
pub mod TextForm
