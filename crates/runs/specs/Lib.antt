pub mod State
pub mod Books
pub mod Laws
pub mod Holding
pub mod Replay
pub mod Hinge
pub mod Texts
