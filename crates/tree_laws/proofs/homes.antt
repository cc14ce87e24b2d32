pub mod Sent
pub mod Noting
pub mod Answering
pub mod Staging
pub mod Finishes
pub mod Counted
pub mod Entries
