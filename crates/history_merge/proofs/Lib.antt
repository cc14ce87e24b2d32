pub mod OneMore
pub mod Lefts
pub mod Merges
pub mod Recordings
pub mod Parts
pub mod Gatherings
pub mod ClientEnds
