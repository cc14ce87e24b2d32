pub mod Modes
pub mod Locks
pub mod Laws
pub mod inside
