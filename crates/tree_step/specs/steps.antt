pub mod HomeChange
pub mod TreeChange
pub mod Change
pub mod PartsStep
pub mod TreeStep
pub mod VoteChange
pub mod HoldChange
pub mod CoreStep
