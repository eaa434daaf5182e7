pub mod Kept
pub mod Serving
pub mod Planning
pub mod Arrays
