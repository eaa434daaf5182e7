pub mod Drafts
pub mod Gives
pub mod Laws
