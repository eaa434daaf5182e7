pub mod Together
pub mod Parts
pub mod Texts
