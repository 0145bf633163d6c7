pub mod Bus
pub mod Ours
pub mod Wrong
