-- Lists, their order, texts and decimal numerals: what the definitions of document 01 are written with.
pub mod Lists
pub mod Order
pub mod Text
pub mod Decimal
pub mod Radix
pub mod Buffers
