-- Where a path leads in a tree.
pub mod ByNames
pub mod Follow
pub mod Followed
pub mod FullPaths
pub mod Join
pub mod Lookups
pub mod MissingNames
pub mod Repositories
pub mod Slashed
pub mod Trails
pub mod Ways
