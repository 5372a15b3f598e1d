pub mod Counted
pub mod Places
pub mod Search
