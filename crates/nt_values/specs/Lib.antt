pub mod Tells
pub mod Typed
