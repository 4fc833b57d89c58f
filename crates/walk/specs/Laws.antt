-- Laws of the walk, by subject.
pub mod Walk
