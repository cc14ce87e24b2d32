pub mod OrderOfCore
pub mod OrderOfParts
