pub mod Bytes
pub mod Gathering
pub mod Printing
pub mod ReadBack
pub mod ReadBytes
