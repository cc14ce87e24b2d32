pub mod AnswerOrDecisionPlans
pub mod DecidedAtHome
pub mod DecisionApplied
pub mod DeferredSubs
pub mod NoHeldAnswerOpen
pub mod NoticePlan
pub mod VoteRows
