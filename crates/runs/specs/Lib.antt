-- What a list of calls is that is handed over as slices, what running it promises, and laws.
pub mod Handed
pub mod Runs
pub mod Laws
