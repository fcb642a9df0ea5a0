pub mod Documents
pub mod EntriesNamed
