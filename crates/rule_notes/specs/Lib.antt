-- What a rule notes, and laws of it.
pub mod Noted
pub mod Laws
