pub mod AsciiNames
pub mod Last
pub mod Lists
pub mod Loading
pub mod Named
pub mod StrictKind
pub mod SubsOf
pub mod Totals
