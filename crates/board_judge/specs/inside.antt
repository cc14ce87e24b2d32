pub mod Asking
pub mod Rewriting
pub mod Shorts
pub mod Standing
pub mod Steps
pub mod Trying
pub mod Users
pub mod Votes
