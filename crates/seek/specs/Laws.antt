-- Laws of the search, by subject.
pub mod Seek
