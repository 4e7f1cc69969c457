mod NameSets
mod Along
mod Walked
mod RuledOut
