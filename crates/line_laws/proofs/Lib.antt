pub mod Names
pub mod Strict
pub mod Values
pub mod Lines
pub mod Fronts
pub mod Replies
