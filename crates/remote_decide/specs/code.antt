pub mod Decide
pub mod Turning
