-- Laws of notes, by subject.
pub mod Noting
pub mod Images
pub mod Kept
pub mod InTurn
