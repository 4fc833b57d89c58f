-- Laws of rule lines that the code doesn't need.
pub mod Numbers
