-- Laws of runs that the code doesn't need.
pub mod Ends
