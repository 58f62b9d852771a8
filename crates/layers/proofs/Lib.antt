pub mod Turns
pub mod Joining
