pub mod Replies
pub mod Room
pub mod Said
