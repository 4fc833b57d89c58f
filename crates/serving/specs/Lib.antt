-- What nodes serve, and laws of it.
pub mod Served
pub mod Laws
