-- Why a walk is refused.
pub mod Judged
pub mod Refusals
pub mod Shallow
pub mod Unread
pub mod Weaker
