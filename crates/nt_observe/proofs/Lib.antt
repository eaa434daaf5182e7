pub mod Once
pub mod Sames
pub mod Tracing
