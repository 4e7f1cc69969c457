-- Lists, how often things stand in them, and orders of entries.
pub mod Counts
pub mod Lists
pub mod Members
pub mod Once
pub mod Permuted
pub mod Same
pub mod Sorting
pub mod Stable
pub mod Strict
pub mod Tallies
