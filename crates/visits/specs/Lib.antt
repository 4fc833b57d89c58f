-- A placement as a matching, and laws.
pub mod Placed
pub mod Laws
