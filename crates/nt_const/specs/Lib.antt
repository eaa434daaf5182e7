pub mod Drafts
pub mod Rules
pub mod Stored
pub mod Tables
pub mod Tells
pub mod Walks
pub mod Forms
pub mod Answers
