pub mod Tables
pub mod Groups
pub mod Types
pub mod Reader
pub mod Nests
