mod Looked
mod Unquoting
