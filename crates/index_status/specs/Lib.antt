pub mod Ways
pub mod States
pub mod Rows
pub mod Status
pub mod Lines
pub mod Run
