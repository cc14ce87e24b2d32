pub mod Editing
pub mod Showing
