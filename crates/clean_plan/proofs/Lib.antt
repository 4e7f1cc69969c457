mod Among
mod Directories
mod Reached
mod Jointly
mod Indexed
mod Sifting
mod Planning
mod Flat
mod Safely
mod Made
mod Preparing
pub mod Texts
pub mod Runs
