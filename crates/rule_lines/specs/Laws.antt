-- Laws of a line of a rule text: of the kinds of lines, of their places, of a line's checks by its kind, of its verdict as code finds it.
pub mod RuleKinds
pub mod RulePlaces
pub mod RuleRows
pub mod RuleVerdict
