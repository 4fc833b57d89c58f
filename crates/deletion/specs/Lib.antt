-- What is left when keys go, and laws of it.
pub mod Deleted
pub mod Laws
