-- Laws of the numbers of a row, and of a line as it is written.
pub mod Numbers
pub mod Written
pub mod Keys
