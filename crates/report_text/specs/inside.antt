pub mod Lines
pub mod Served
pub mod Totals
pub mod Voters
