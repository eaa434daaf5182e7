pub mod Joined
pub mod Numbers
pub mod Overlaid
pub mod Paths
