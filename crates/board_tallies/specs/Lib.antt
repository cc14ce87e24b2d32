pub mod Board
pub mod GateRows
pub mod TakenBack
pub mod inside
