-- How the names of a directory close it, and when it is folded.
pub mod Accounts
pub mod Blocked
pub mod Closes
pub mod Closing
pub mod Empties
pub mod Folds
pub mod Hiding
pub mod Listed
pub mod Named
pub mod ShownFolds
pub mod Steps
