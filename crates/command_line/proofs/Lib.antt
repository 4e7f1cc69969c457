pub mod Unspelling
