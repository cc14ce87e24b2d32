pub mod OfScript
pub mod PrintedRuns
pub mod Ranges
pub mod ReplyLines
