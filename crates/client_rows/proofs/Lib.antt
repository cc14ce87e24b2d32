pub mod Counts
pub mod Marks
pub mod Further
pub mod Submits
pub mod Bounds
