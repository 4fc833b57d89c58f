pub mod Laws
pub mod LongTexts
