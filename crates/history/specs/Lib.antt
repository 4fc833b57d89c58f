-- The undo history as a list, and laws.
pub mod Histories
pub mod Laws
