-- Laws of a drawing file's lines: the checks of a line, and its verdict, as code finds them.
pub mod DrawingChecks
pub mod DrawingVerdict
