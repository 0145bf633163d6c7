pub mod Pages
pub mod Line
pub mod Digits
