pub mod Choosing
pub mod Looking
pub mod Adding
