pub mod Feed
pub mod Lines
pub mod code
