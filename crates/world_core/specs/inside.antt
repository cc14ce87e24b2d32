pub mod Actors
pub mod Flows
pub mod Growth
