pub mod Empty
pub mod Fitting
