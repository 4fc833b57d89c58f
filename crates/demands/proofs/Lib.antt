-- The theorems of the demands, each in a file of its own, and what they follow from.
pub mod Laws
pub mod Demand1
pub mod Demand2
pub mod Demand3
