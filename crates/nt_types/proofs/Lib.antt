pub mod Ending
pub mod Adding
pub mod Listing
pub mod Scoping
pub mod Paths
pub mod Finding
