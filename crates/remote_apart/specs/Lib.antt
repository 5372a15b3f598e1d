pub mod Apart
pub mod Calls
pub mod Run
pub mod Written
