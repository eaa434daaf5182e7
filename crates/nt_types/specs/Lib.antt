pub mod Ends
pub mod Parts
pub mod Units
pub mod Opened
pub mod Laws
pub mod Looks
