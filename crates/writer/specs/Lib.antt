pub mod Said
pub mod Number
pub mod Writer
