pub mod Ids
pub mod Postings
