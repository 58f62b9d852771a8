pub mod Reading
pub mod Laying
pub mod Walking
pub mod Exact
pub mod Lawful
pub mod Asked
