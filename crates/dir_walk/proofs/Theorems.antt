-- What holds of the report of any tree.
pub mod Comes
pub mod Complete
pub mod Coverage
pub mod CoveredWalks
pub mod Covering
pub mod Flat
pub mod Guards
pub mod Induct
pub mod Matching
pub mod Precious
pub mod Safety
pub mod Walkable
