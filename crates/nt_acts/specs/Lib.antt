pub mod Arms
pub mod Doable
pub mod Endings
pub mod Spans
