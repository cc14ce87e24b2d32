pub mod Always
pub mod Firsts
pub mod Loops
pub mod Members
pub mod Mirrors
pub mod Orders
pub mod Ranges
