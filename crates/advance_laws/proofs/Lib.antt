pub mod counting
pub mod phases
pub mod governed
pub mod right
pub mod recovery
pub mod ending
