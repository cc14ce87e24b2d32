pub mod AllItems
pub mod Bounds
pub mod Rows
pub mod Voting
pub mod Walk
pub mod Back
pub mod ByVersion
pub mod Carrying
