mod Asking
mod AsksRulesAboutPath
mod ByParts
mod Ended
mod Fitting
mod Judging
mod Keeping
mod Looked
mod OnWay
mod Ruled
mod Sought
mod Stopped
mod Upgrades
mod WayLeads
mod WayReached
mod WayUnread
mod WorktreeSet
pub mod Classed
pub mod Most
pub mod NormalPaths
pub mod Onward
pub mod Refusals
pub mod WayAsked
