-- Laws of edge addition, by subject.
pub mod Joining
pub mod Union
pub mod Whole
