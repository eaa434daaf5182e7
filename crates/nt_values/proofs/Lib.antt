pub mod Nodes
pub mod Paths
pub mod Sized
pub mod Told
