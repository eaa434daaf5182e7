pub mod Choices
pub mod Means
pub mod Laws
