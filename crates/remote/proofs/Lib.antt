pub mod Keeps
pub mod Passes
pub mod Said
pub mod Silent
