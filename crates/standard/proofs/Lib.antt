pub mod First
pub mod Turns
