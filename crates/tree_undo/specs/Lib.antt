pub mod Again
pub mod Balance
