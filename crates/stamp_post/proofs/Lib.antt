pub mod Lists
pub mod Claims
pub mod Steps
pub mod Known
