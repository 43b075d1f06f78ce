-- Laws that belong to no one function.
mod Rows
mod Codes
mod Stored
pub mod Carried
pub mod Both
