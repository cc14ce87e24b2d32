pub mod Maps
pub mod Notices
pub mod Homes
pub mod Places
pub mod HeldAnswers
pub mod Laws
pub mod HeldLaws
