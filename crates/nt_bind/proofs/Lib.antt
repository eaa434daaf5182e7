pub mod Finding
pub mod Rising
pub mod Walking
pub mod Picking
