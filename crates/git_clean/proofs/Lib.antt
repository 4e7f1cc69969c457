mod Ordered
mod Near
mod Walked
