pub mod Judged
pub mod inside
pub mod Settled
pub mod Notes
pub mod Views
