-- What is open after a drawing file.
pub mod Opened
