-- Runs of edges, and laws of them.
pub mod Runs
pub mod Laws
