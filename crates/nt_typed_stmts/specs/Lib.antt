pub mod Lefts
pub mod Around
pub mod Tables
pub mod Binds
pub mod Faults
pub mod Places
pub mod Fits
pub mod Laws
