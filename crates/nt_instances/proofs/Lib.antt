pub mod Numbering
pub mod Walking
pub mod Depth
pub mod Faulting
