pub mod Answers
pub mod Exactly
pub mod Groups
pub mod Places
pub mod Stands
pub mod Walk
