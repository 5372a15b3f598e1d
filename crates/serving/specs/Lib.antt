pub mod Apart
pub mod History
pub mod Keeping
pub mod Order
pub mod Rules
pub mod Run
pub mod Serve
