-- Laws of drawing files as lines of rows, and of what save leaves.
pub mod Lines
pub mod Stored
pub mod Saving
pub mod Cases
