pub mod Judged
pub mod Width
