-- The calls of a walk, one after another, and forks.
pub mod CallByCall
pub mod DirectorySteps
pub mod Ending
pub mod Forked
pub mod NameEnds
pub mod NameSteps
pub mod WalkedAt
pub mod WalksSo
pub mod Wholly
