pub mod Nudges
pub mod Reasons
pub mod NoWakes
pub mod Waking
pub mod Parkings
pub mod DoneOrParked
