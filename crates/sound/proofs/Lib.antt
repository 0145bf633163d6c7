pub mod Examples
pub mod Laws
pub mod Exactly
pub mod Opened
