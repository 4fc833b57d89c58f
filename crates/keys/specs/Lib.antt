-- Rising keys, and laws of them.
pub mod Keys
pub mod Laws
