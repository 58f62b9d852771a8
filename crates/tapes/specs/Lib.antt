pub mod Command
pub mod Reading
pub mod Source
pub mod Rows
pub mod Forest
pub mod Draft
pub mod Check
pub mod Hinge
