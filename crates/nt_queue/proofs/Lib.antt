pub mod Telling
pub mod Mapped
