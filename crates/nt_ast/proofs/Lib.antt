pub mod Rolled
pub mod InOrder
