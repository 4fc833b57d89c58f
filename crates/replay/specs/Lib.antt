-- What the entries of a script keep to.
pub mod Entries
