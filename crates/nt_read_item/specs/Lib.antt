pub mod Tables
pub mod Parts
pub mod Functions
pub mod Items
pub mod Reader
