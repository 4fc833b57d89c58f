-- Laws of lines that their files and the code don't need.
pub mod Keys
pub mod Read
