pub mod Binding
pub mod Patterns
