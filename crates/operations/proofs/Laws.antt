-- Laws of the operations that the code doesn't need.
pub mod Parts
