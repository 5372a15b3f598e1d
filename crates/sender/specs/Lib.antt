pub mod Calls
pub mod Keeping
pub mod Replies
pub mod Said
pub mod Serve
