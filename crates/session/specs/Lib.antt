-- What a session stands for, and what every call is held to.
pub mod Sessions
pub mod Chains
