-- Laws of what stored values mean, by subject.
pub mod Sets
pub mod Triples
pub mod Fields
pub mod Keys
pub mod Fresh
pub mod Stored
