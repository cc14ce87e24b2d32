pub mod Numbers
pub mod Readers
pub mod Reading
pub mod Records
pub mod Rows
