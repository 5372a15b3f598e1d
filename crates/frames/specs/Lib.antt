pub mod Output
pub mod Frame
pub mod Serve
pub mod Whole
