pub mod Exact
pub mod Examples
pub mod Following
pub mod Groups
pub mod Judged
pub mod Marks
pub mod Opened
pub mod Source
