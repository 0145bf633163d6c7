pub mod Exactly
pub mod Laws
