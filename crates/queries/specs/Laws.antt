-- Laws of the calls that only read the session, by call.
pub mod Listing
pub mod Shut
pub mod Saving
