pub mod Tables
pub mod Derivation
pub mod Lists
pub mod Reader
pub mod LeftSide
pub mod Nests
pub mod Places
pub mod Gives
