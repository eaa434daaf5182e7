pub mod Gains
pub mod Fronts
