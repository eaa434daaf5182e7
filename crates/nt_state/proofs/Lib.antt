pub mod Advancing
pub mod Lookups
pub mod Starting
pub mod Zeds
