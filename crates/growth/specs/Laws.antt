-- Laws of growth.
pub mod Growing
pub mod Room
