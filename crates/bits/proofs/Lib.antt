pub mod Anchors
pub mod Laid
pub mod Laws
pub mod Stores
pub mod Windows
pub mod Opened
