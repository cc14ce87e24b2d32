pub mod Numbers
pub mod Counts
pub mod Rows
pub mod inside
