-- Laws of results.
pub mod Cases
pub mod Numbers
