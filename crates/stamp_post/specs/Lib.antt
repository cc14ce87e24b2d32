pub mod Logs
pub mod Rules
pub mod Moves
pub mod Shown
pub mod Views
