-- A lookup that makes the directories on its way.
pub mod Going
pub mod Halting
pub mod HeldOut
pub mod Holding
pub mod Keeping
pub mod KeptSteps
pub mod LaterTrees
pub mod Plain
pub mod Preparing
pub mod Readied
pub mod Remade
pub mod RestOut
pub mod Stepping
pub mod Within
pub mod Working
