pub mod Picks
pub mod Pickers
pub mod Worlds
pub mod Held
