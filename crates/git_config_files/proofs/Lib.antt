mod Deeper
mod Laws
mod PathSets
