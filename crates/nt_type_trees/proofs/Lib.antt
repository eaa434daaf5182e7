pub mod One
pub mod Joining
pub mod Placing
pub mod Walking
pub mod Sound
