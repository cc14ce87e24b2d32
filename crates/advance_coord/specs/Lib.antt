pub mod Changes
pub mod Rounds
pub mod inside
