pub mod AptDecisions
pub mod AptRulings
pub mod AptApplied
pub mod AptDecided
pub mod AptVotesRows
pub mod AptVotes
