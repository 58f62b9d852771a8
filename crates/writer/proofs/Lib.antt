pub mod Over
pub mod Steps
pub mod PutIn
pub mod Whole
pub mod Histories
