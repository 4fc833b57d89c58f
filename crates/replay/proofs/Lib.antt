-- Where entries stand in their script.
pub mod Entries
