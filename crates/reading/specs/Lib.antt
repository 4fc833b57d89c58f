-- What the reader of drawing files promises, and what the functions that it is made of give, in terms of the definitions of document 01.
pub mod Readers
pub mod Laws
