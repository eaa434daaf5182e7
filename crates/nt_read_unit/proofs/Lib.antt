pub mod Turns
pub mod GroupLaws
pub mod Sound
pub mod Complete
pub mod Places
