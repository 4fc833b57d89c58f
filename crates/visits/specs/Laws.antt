-- Laws of visits, by subject.
pub mod Visits
pub mod Visited
