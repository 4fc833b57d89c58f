-- Answers as structs of numbers, and laws.
pub mod Results
pub mod Laws
