-- What is written of a stop list.
pub mod File
