-- What the calls that only read the session read of a rule text, and laws of these calls.
pub mod Patterns
pub mod Laws
