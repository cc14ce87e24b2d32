pub mod Counts
pub mod Rounds
