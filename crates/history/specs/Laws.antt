-- Laws of the undo history.
pub mod Copies
pub mod Moves
