-- What new nodes for groups make of an instance, and laws of it.
pub mod Grouped
pub mod Laws
