pub mod Seen
pub mod Kinding
pub mod Asking
pub mod Operating
pub mod Knowing
pub mod Assigning
pub mod Finishing
