pub mod Verdicts
pub mod Audited
pub mod Names
pub mod inside
pub mod Audits
