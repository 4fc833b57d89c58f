-- Laws of the calls that change the session, by call.
pub mod Opening
pub mod Applying
