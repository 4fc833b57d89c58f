-- Laws of the search for the first matching.
pub mod Laws
