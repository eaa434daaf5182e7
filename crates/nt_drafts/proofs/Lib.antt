pub mod Become
pub mod Closed
pub mod Low
