pub mod Gather
pub mod Hex
pub mod Number
pub mod code
