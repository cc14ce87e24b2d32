pub mod Ballots
pub mod Standings
pub mod Balances
pub mod SerialList
pub mod Carried
pub mod inside
