pub mod Types
pub mod Faults
pub mod Tells
pub mod Laws
pub mod Answers
