pub mod Trees
pub mod Routes
pub mod Calls
pub mod Lists
pub mod Paths
