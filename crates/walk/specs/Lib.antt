-- What a walk leaves, and laws.
pub mod Walks
pub mod Laws
