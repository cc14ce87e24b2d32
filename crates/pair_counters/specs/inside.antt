pub mod NoNumbers
