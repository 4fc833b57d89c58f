-- Laws of rising keys.
pub mod Keys
pub mod Shifting
