-- What a new node makes of an instance, and laws of it.
pub mod Growth
pub mod Laws
