pub mod Module
pub mod Queue
pub mod Sleep
pub mod Typed
