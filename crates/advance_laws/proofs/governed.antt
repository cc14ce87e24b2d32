pub mod Lawful
pub mod Brought
pub mod Advancing
pub mod Governed
pub mod Sampled
