-- Laws of node addition that the code doesn't need.
pub mod Arms
