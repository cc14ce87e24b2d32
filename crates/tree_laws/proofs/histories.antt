pub mod Client
pub mod Acts
pub mod SampledEnds
pub mod Sampled
pub mod Histories
pub mod SampledReads
pub mod Turns
