-- What new edges make of an instance, and laws of it.
pub mod Joined
pub mod Laws
