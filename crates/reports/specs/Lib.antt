-- What is reported, and laws of it.
pub mod Reported
pub mod Laws
