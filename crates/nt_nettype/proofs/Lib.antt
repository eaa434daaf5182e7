mod Resolving
mod Nettyping
