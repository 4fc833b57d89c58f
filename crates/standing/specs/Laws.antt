-- Laws of what stands.
pub mod Kept
