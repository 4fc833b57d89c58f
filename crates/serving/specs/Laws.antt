-- Laws of what nodes serve.
pub mod Serving
