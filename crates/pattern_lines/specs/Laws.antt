-- Laws of patterns: pattern nodes by their places, and the checks of a line as code finds them.
pub mod Patterns
pub mod PatternChecks
