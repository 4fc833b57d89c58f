-- Laws of abstraction, by subject.
pub mod Adding
pub mod Leading
pub mod Cases
