-- Laws of node addition, by subject.
pub mod Adding
pub mod Keyed
pub mod Targets
pub mod Turns
pub mod Start
