-- What a line of a pattern must meet, and laws of it.
pub mod PatternLines
pub mod Laws
