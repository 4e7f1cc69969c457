mod UpwardLemmas
mod Nearest
pub mod Passes
pub mod Carried
