pub mod Answering
pub mod Hold
pub mod Stays
