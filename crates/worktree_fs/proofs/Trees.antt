-- Trees in memory, and how they change.
pub mod Alike
pub mod Answered
pub mod Changed
pub mod Cuts
pub mod Depths
pub mod EntryFalls
pub mod Grown
pub mod KeptNames
pub mod Obstacles
pub mod Regrown
pub mod Removals
pub mod Sorted
pub mod Subtree
pub mod Tested
pub mod Within
