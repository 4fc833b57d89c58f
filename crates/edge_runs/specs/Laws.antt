-- Laws of runs.
pub mod Running
pub mod Nodes
