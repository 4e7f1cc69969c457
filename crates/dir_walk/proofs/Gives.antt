-- What a delegate is given, and the report of it.
pub mod ByPath
pub mod Collected
pub mod Emitting
pub mod FeedsSo
pub mod HandedOn
pub mod Putting
pub mod Reported
