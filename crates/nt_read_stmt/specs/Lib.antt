pub mod Tables
pub mod Statements
pub mod Reader
pub mod Places
