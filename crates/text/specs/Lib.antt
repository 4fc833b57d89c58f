-- What lines in the code stand for, and laws of it.
pub mod Lines
pub mod Laws
