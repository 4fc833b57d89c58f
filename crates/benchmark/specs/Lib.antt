-- What the timed functions return, and the laws that prove it.
pub mod Applications
pub mod ApplicationLaws
pub mod Counted
pub mod Laws
pub mod Repeated
