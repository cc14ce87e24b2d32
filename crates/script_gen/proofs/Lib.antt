pub mod Taken
pub mod Names
pub mod Items
pub mod Totals
pub mod Trees
pub mod Stages
pub mod Behind
