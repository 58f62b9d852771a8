pub mod Records
pub mod Reading
pub mod Source
pub mod Written
