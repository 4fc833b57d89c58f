-- Laws of the session, by subject.
pub mod Steps
pub mod Fresh
