pub mod Deeds
pub mod NodeNumbers
pub mod Births
pub mod Raised
pub mod Asked
pub mod ReadVersions
pub mod Asking
pub mod ReadPlaces
