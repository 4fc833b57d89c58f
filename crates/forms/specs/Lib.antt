-- The table of forms, and laws of it.
pub mod Forms
pub mod Laws
