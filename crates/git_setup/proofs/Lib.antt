pub mod Same
mod Stands
mod Refused
pub mod Located
mod LeadsPast
mod Beneath
mod SeenAlong
