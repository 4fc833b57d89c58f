-- What the definitions of document 01 amount to: theorems, by subject. Above a module stand its theorems; a module without any serves others.

-- # Outcomes, accepted and refused
pub mod Outcomes
-- # Schemes, drawings, patterns: the tests as statements on members
pub mod Graph
pub mod Kinds
pub mod Sound
-- # Matchings
-- in-matchings, matchings-rise, matching-once, empty-pattern
pub mod Matchings
-- listing-gives-all, listing-is-all, first-gives-smallest, after-gives-smallest
pub mod Listings
-- backtracking-is-all
pub mod Backtracking
-- # Files: both kinds at once
-- read-refused: a text is refused exactly for its first bad line
pub mod Reading
-- read-iff: the texts that are accepted, and as which lines
pub mod Lines
pub mod Passing
-- accepted-size, first_part
pub mod Bounds
pub mod Keys
pub mod Places
-- # Drawing files
-- write_read, one-text, drawing-size, drawing-first-part
pub mod DrawingFiles
-- accepted-is-sound
pub mod SoundFiles
-- read-write
pub mod SavedFiles
-- # Rule texts
pub mod RulePatterns
-- rule-is-sound
pub mod RuleActions
-- rule-size, rule-first-part
pub mod RuleTexts
-- # Operations
pub mod Within
pub mod Images
-- edge-deletion-exactly, node-deletion-exactly, node-deletion-clears
pub mod Deletions
-- edge-addition-smallest
pub mod EdgeAddition
-- next-number
pub mod NewNodes
-- new-nodes-exactly
pub mod Additions
-- image-in-one-group, only-images-grouped, grouped-by-targets, groups-by-smallest
pub mod Groups
pub mod NodeAddition
pub mod Abstraction
-- node-addition-serves, abstraction-serves
pub mod Serves
-- applied-is-sound, additions-remove-nothing, deletions-add-nothing, pattern-only-changes-nothing
pub mod Operations
-- applied-leaves
pub mod Leaves
-- counts-report, counts-balance, and which counts are 0
pub mod Counts
-- # The record
-- refused-changes-nothing, refusal-numbered, undoes, closes, saves, undo-gives-back, asking-changes-nothing
pub mod Calls
-- scheme-since-open
pub mod Schemes
-- run-is-sound
pub mod Record
-- refused-exactly
pub mod Refusals
-- first-part-decides
pub mod FirstParts
-- # Numbers as they are printed
-- numeral-printed
pub mod Printed
