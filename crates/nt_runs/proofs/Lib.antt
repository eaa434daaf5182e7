pub mod Lists
pub mod Going
pub mod Slots
pub mod Cutting
