pub mod WantSteps
pub mod Wanting
pub mod Ending
pub mod Prices
pub mod Refunds
pub mod CostsSent
