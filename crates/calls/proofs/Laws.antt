-- Laws of what the calls leave, in parts.
pub mod Left
