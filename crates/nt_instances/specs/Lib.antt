pub mod Numbers
pub mod Modules
pub mod Rows
pub mod Faults
pub mod Laws
