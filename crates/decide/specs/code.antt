pub mod Decide
pub mod Index
pub mod Passing
pub mod Turning
