-- Laws of groups.
pub mod Grouping
pub mod Alike
