-- What stored values mean, examples of it, and laws.
pub mod Packed
pub mod Operations
pub mod Kinds
