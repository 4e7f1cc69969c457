-- Which directories are opened and read.
pub mod Apart
pub mod Entered
pub mod Entering
pub mod FromRoot
pub mod Keeping
pub mod Opening
pub mod Overall
