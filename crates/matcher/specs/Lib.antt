-- What the matcher promises, and laws.
pub mod Matchers
pub mod Listing
pub mod Laws
