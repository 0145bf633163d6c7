pub mod Registers
pub mod Runs
