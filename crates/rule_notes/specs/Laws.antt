-- Laws of what a rule notes.
pub mod Noted
pub mod Listing
