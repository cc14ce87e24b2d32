pub mod ByActs
pub mod Conflicts
pub mod RunLocks
pub mod AtHome
pub mod NoConflicts
pub mod RunConflicts
pub mod Holding
