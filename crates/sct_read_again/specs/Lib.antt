-- The law of written messages.
pub mod ReadAgain
