pub mod Ended
pub mod Headline
pub mod Held
pub mod Undone
