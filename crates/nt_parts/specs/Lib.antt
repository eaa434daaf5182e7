pub mod Indices
pub mod Steps
