pub mod Apart
pub mod Calls
pub mod History
pub mod Order
pub mod Run
pub mod Written
