pub mod Answered
pub mod Commands
pub mod Lines
pub mod Orders
pub mod Outputs
pub mod Steps
