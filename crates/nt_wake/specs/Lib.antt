pub mod Typed
pub mod Wakings
