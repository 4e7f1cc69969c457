-- Paths and their components.
pub mod Fronts
pub mod NameParts
pub mod Parts
pub mod Pieces
pub mod Placed
pub mod SlashEnds
pub mod Spelled
pub mod Standing
pub mod TextPieces
pub mod Texts
