-- Laws of lines: a line's numbers, the order of lines, the line that a text is.
pub mod Rows
pub mod Lines
pub mod Parsing
pub mod Seeking
