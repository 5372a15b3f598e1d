pub mod Fits
pub mod Frames
pub mod Lent
pub mod Printing
pub mod Room
