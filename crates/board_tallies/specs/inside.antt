pub mod Noting
pub mod Keeping
pub mod May
pub mod Marks
pub mod Pending
