pub mod Resolvers
pub mod Nettypes
pub mod Laws
