pub mod DecisionTests
pub mod PlansByBody
pub mod TestsSayEnabled
