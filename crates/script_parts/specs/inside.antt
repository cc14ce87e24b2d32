pub mod AsciiNames
pub mod Passing
pub mod Totals
