-- Laws of the operations, by subject.
pub mod Asked
pub mod Performed
pub mod Slices
pub mod Finished
pub mod Counted
pub mod Calls
