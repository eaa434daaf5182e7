pub mod Firsts
pub mod Pieces
pub mod Complete
pub mod Sound
pub mod Whole
pub mod Places
pub mod Turns
