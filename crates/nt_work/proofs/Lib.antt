pub mod Stacks
pub mod Unfolds
