pub mod Parts
pub mod Outcomes
pub mod Report
pub mod Replies
pub mod Lines
pub mod Summary
pub mod inside
