pub mod Phases
pub mod Advances
pub mod Balance
pub mod Apt
pub mod Quiet
pub mod Given
