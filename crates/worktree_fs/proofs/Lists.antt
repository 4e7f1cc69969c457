-- Lists of names, and orders of them.
pub mod Distinct
pub mod EntryNames
pub mod Listed
pub mod Order
pub mod Readings
pub mod Skipped
pub mod Taken
