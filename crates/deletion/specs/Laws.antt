-- Laws of deletions, by subject.
pub mod Marked
pub mod Retained
pub mod Deletions
pub mod Told
