pub mod Using
pub mod Naming
pub mod Finding
pub mod Joining
