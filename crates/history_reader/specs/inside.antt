pub mod BodyWords
pub mod Finding
pub mod Heads
pub mod Heard
pub mod Lines
pub mod Next
pub mod Refusals
