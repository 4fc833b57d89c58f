-- What stands, and laws of it.
pub mod Held
pub mod Laws
