pub mod Texts
pub mod Constants
