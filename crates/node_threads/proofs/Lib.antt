pub mod AllEntries
pub mod Benches
pub mod Entries
pub mod Seats
