pub mod Calls
pub mod Keeping
pub mod Messages
pub mod Said
pub mod Serve
