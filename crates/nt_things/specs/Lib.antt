pub mod Usable
pub mod Gives
pub mod Laws
