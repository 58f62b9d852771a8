pub mod Root
pub mod Writer
pub mod Views
pub mod Calls
pub mod Turns
pub mod Writes
pub mod Histories
pub mod Texts
