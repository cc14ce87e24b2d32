pub mod RestartChanges
pub mod inside
