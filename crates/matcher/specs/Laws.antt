-- Laws of what is reached with tables, of what the calls give, and of what is printed, by subject.
pub mod Reached
pub mod Calls
pub mod Given
pub mod Printed
