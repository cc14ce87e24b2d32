pub mod Balances
pub mod Ballots
pub mod Closed
pub mod May
pub mod SerialList
pub mod Tallies
