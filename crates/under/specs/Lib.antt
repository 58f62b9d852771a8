pub mod Nodes
pub mod Under
pub mod Law
