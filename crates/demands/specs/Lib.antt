-- The three demands, each in a file of its own, as statements about every session that calls which meet their contracts can leave. Their theorems,
-- under the same names, are in proofs/.
pub mod Reached
pub mod Demand1
pub mod Demand2
pub mod Demand3
