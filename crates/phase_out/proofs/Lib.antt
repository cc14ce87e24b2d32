pub mod Verdicts
pub mod With
