pub mod Grammar
pub mod Elaboration
pub mod Law
pub mod Pieces
pub mod Said
pub mod Tables
