pub mod Uses
pub mod Statements
pub mod Functions
