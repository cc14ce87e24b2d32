pub mod Messages
pub mod Records
pub mod inside
