pub mod loads
pub mod homes
pub mod kept
pub mod histories
pub mod apt
pub mod decided
pub mod stages
pub mod conflicts
