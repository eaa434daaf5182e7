pub mod Tables
pub mod Carried
pub mod Units
pub mod Reader
