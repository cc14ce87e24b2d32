pub mod Counted
pub mod InPlace
pub mod Places
pub mod StagedOps
