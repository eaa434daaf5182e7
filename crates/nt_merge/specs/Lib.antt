pub mod Classes
pub mod Drivers
pub mod Forest
pub mod Numbers
