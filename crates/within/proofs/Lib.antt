-- Laws that belong to no one function.
pub mod Cutoffs
pub mod Limits
pub mod Counting
pub mod Reaching
pub mod Arrays
pub mod Blocks
pub mod Lenting
pub mod Questions
pub mod Emitting
pub mod Sites
pub mod Making
