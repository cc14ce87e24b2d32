pub mod Texts
pub mod Upgraded
pub mod Calls
pub mod inside
