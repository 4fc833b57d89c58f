-- Worked examples
pub mod Examples
pub mod Cases
pub mod Readings
-- The theorems by subject, and those of the three demands
pub mod Laws
pub mod Demands
