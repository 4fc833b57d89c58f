-- Laws of rule texts: what stands with one line more, the rows of each key, the order of lines, that a line's verdict is the definition's, how far
-- a text is read, and what a stored rule holds then.
pub mod RuleParts
pub mod RuleKept
pub mod RuleRows
pub mod RuleContents
pub mod RuleOrder
pub mod RuleLines
pub mod RuleReached
pub mod RuleHeld
pub mod Cases
