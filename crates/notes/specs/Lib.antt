-- How keys are noted and how they are stored, what is noted at a matching, and laws.
pub mod Notes
pub mod Kept
pub mod Visits
pub mod Laws
