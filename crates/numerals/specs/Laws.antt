-- Laws of numerals: those of reading, then those of writing.
pub mod Scan
pub mod Walked
pub mod Digits
