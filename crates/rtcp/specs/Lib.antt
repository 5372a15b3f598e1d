pub mod Pick
pub mod Number
pub mod Walk
pub mod Datagram
pub mod Cursor
pub mod Said
pub mod code
