pub mod Chain
pub mod Said
