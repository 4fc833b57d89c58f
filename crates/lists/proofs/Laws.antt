-- Laws of the definitions of this crate, by subject.
pub mod Lists
pub mod Order
pub mod Decimal
pub mod Text
pub mod Count
pub mod Radix
pub mod Buffers
pub mod Apart
pub mod Maps
pub mod Places
pub mod OneMore
