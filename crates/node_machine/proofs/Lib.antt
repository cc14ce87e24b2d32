pub mod coordinator_rows
pub mod deferred
pub mod enabled
pub mod node_rows
pub mod tree_rows
