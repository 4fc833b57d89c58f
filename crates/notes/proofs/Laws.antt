-- Laws of stored notes that the code doesn't need.
pub mod Room
