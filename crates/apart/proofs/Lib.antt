pub mod Faithful
pub mod Invariant
pub mod Lawful
pub mod Refused
pub mod Seen
pub mod Streams
pub mod Written
