pub mod QuotedNames
pub mod RelativeNames
