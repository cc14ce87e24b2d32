pub mod Votes
pub mod Decisions
pub mod inside
