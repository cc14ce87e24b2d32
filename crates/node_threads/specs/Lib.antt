pub mod Benches
pub mod Cells
