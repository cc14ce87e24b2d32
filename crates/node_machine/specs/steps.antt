pub mod ChosenStep
pub mod CoreKept
pub mod Keep
pub mod KeepingStep
