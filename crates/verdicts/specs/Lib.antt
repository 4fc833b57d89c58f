-- What is found of a line, and the next line of a text, in terms of the definitions of document 01. Their laws stand in proofs.
pub mod Verdicts
pub mod NextLine
