-- What apply promises, what is noted for a rule when all matchings are visited, and laws.
pub mod Applies
pub mod Walked
pub mod Laws
