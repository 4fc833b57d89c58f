-- What the writer promises, and what the file of a scheme and an instance is made of.
pub mod Writers
pub mod Lines
