pub mod SoFar
pub mod Views
pub mod Lines
