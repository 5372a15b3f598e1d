pub mod Clock
pub mod Counters
pub mod Width
