-- Laws of keys and of the kinds of line.
pub mod KeyNumbers
pub mod Kinds
pub mod Table
