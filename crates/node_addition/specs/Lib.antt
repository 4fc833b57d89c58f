-- What new nodes for keys make of an instance, and laws of it.
pub mod Added
pub mod Laws
