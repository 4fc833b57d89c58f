-- Laws of any text: a line's verdict, the next line, how far a text is read, and conformity with one node or edge more.
pub mod Verdicts
pub mod Tests
pub mod NextLine
pub mod Lines
pub mod Pieces
pub mod InTurn
pub mod LineByLine
pub mod Edges
pub mod LastEdge
pub mod LastKey
