pub mod Chosen
pub mod Inner
pub mod Kept
pub mod Locals
pub mod Simple
pub mod Turned
