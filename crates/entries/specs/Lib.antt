-- What the tool reads.
pub mod Entries
pub mod Input
pub mod inner
