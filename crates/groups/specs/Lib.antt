-- Groups of images.
pub mod Groups
