pub mod Keeps
pub mod Passes
pub mod Rows
pub mod Said
