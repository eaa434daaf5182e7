pub mod Leading
pub mod Leasts
pub mod Telling
pub mod Counting
