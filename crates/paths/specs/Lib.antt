pub mod Limits
pub mod Faults
pub mod Texts
pub mod Query
pub mod Drain
pub mod Path
pub mod Law
pub mod Hinge
