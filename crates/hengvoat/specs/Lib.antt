-- What the exported calls promise, and what their callers may conclude.
pub mod Exports
pub mod Callers
