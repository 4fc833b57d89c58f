-- Laws of the text that program trial prints.
pub mod Lengths
pub mod Parts
pub mod Saved
