pub mod Histories
pub mod OwnLogs
pub mod Merging
pub mod Recording
