pub mod Events
pub mod Record
pub mod Rules
pub mod Said
pub mod code
