-- Laws of lists of calls, by subject.
pub mod Answers
pub mod Entries
pub mod Cases
pub mod Writing
