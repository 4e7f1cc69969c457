pub mod Rules
pub mod Lookup
pub mod CheckOut
pub mod Refusals
pub mod Weaker
