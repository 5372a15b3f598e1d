pub mod Placed
pub mod Stored
pub mod Cases
pub mod Back
