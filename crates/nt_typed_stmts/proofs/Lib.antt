pub mod One
pub mod Excluded
pub mod Folded
pub mod Behaving
pub mod Fitting
