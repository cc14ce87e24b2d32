pub mod Sealed
pub mod Kept
pub mod Begins
pub mod Pushed
