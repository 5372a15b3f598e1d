pub mod Lines
pub mod Passing
