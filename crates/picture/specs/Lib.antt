pub mod Picture
pub mod Masks
