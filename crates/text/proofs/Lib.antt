-- Laws that belong to no one function.
pub mod Bytes
pub mod Lines
pub mod Putting
pub mod Characters
