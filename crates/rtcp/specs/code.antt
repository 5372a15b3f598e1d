pub mod Cursor
pub mod Entries
pub mod Equations
pub mod Plain
