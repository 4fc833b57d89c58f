-- What the code looks for in bytes, and laws of it.
pub mod Scan
pub mod Laws
