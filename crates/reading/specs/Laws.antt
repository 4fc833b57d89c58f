-- Laws of drawing files: that the verdict on a line is the definition's, how far a text is read, and what the arrays hold then.
pub mod DrawingLines
pub mod DrawingReached
pub mod DrawingHeld
