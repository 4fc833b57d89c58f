-- The text that program trial prints, and what is promised of it.
pub mod Trials
