pub mod Causes
pub mod Kept
pub mod Letters
pub mod Postal
pub mod Steps
