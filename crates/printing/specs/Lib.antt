-- A line as it is written, and laws of it.
pub mod Written
pub mod Laws
