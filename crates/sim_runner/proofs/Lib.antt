pub mod Ends
pub mod Picked
pub mod PickNumbers
pub mod OldestPlaces
pub mod Quiet
pub mod Held
