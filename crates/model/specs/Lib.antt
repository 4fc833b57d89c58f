-- Document 01 as definitions, in the document's order. A comment in quotation marks is the sentence that a definition stands for.
pub mod Limits
pub mod Graph
pub mod Matching
pub mod Operations
pub mod Record
pub mod Files
pub mod Refusals
pub mod Trial
pub mod Answers
-- What theorems are stated with, and the three demands. The theorems, and worked examples, stand in proofs
pub mod Sound
pub mod Causes
pub mod Meaning
pub mod Backtracking
pub mod InForm
pub mod Demands
