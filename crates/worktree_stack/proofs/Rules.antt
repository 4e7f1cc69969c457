-- What is read of rules, and which of them decides.
pub mod Decided
pub mod Deciding
pub mod FreshRules
pub mod FromIndex
pub mod Mapped
pub mod Nearest
pub mod Placing
pub mod Pushed
pub mod Pushing
pub mod Readings
pub mod RulesRead
pub mod SameRead
