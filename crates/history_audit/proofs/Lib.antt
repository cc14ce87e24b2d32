pub mod OneVerdict
pub mod Taken
pub mod Auditing
pub mod Divided
pub mod Joined
