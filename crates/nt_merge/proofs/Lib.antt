pub mod Counting
pub mod Few
pub mod Naming
pub mod Trees
