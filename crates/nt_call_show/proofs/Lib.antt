pub mod Folds
pub mod Facts
pub mod Whole
