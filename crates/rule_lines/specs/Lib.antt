-- What a line of a rule text must meet under the lines above it, in terms of the definitions of document 01, and laws.
pub mod RuleLines
pub mod Laws
