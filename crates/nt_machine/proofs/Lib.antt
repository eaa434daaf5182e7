pub mod Counts
pub mod Moves
pub mod Starts
pub mod Steps
pub mod TwoNets
