pub mod Acting
pub mod Placing
pub mod Revaluing
pub mod Bagged
pub mod Noting
