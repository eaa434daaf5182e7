pub mod Counting
pub mod Heads
pub mod Turning
pub mod Writing
