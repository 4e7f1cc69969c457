-- The traversal root, and the way to it.
pub mod HeldRoots
pub mod RootRows
pub mod RootSteps
pub mod Rootward
pub mod Started
pub mod Starting
pub mod Unstarted
pub mod WayRefused
pub mod Ways
