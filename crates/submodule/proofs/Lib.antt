mod Ports
mod OneSection
mod KeptNames
mod DistinctNames
mod Parts
mod KnownNames
mod Tabled
