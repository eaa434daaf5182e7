pub mod Completeness
pub mod Nets
pub mod Outcomes
pub mod Progress
pub mod Runs
pub mod Statuses
pub mod Words
pub mod Writes
