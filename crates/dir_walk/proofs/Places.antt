-- Paths, what lies beneath them, and the place of a walk.
pub mod Beneath
pub mod CurrentDirectory
pub mod DistinctPaths
pub mod Distinctly
pub mod JoinedPaths
pub mod Located
pub mod NormalRoots
pub mod Placed
pub mod Rooms
pub mod Standing
