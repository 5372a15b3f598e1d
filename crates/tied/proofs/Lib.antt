pub mod Each
pub mod Kept
pub mod Lent
pub mod Owned
pub mod RemoteTable
pub mod Table
