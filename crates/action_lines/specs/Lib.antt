-- What a line of an action must meet.
pub mod ActionLines
