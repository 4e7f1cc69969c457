mod Subsections
mod Pieces
mod LastSection
mod AllSections
pub mod KeyRuns
pub mod Placed
mod Behind
mod Shorter
