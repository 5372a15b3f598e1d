pub mod Before
pub mod Called
pub mod Decided
pub mod Found
pub mod Opened
pub mod Passed
