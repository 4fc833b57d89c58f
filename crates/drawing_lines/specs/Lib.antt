-- What a line of a drawing file must meet, and laws of it.
pub mod DrawingLines
pub mod Laws
