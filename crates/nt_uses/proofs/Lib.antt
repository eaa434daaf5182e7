pub mod Folding
pub mod Rooting
pub mod Stating
mod Chaining
