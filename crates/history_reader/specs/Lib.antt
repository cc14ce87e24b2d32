pub mod inside
pub mod OneEntry
pub mod Walks
