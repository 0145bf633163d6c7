pub mod Laws
pub mod Transfers
pub mod Anchors
