pub mod Calls
pub mod Entries
pub mod Rows
pub mod Run
pub mod Said
pub mod code
