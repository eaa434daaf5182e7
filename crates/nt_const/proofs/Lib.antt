pub mod Answered
pub mod Closing
pub mod Faults
pub mod Numbers
pub mod Steps
pub mod Drafting
pub mod Hiding
pub mod Whole
