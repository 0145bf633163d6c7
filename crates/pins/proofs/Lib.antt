pub mod Anchors
pub mod Laws
pub mod Opened
