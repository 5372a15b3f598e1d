pub mod Invariant
pub mod Lawful
pub mod Refused
pub mod Streams
pub mod Written
