pub mod Levels
pub mod Turn
pub mod Union
pub mod Joined
