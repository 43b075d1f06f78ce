-- Laws that belong to no one function.
mod Rows
mod Others
pub mod Inputs
pub mod Stored
