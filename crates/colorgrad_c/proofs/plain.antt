pub mod Stored
pub mod Coding
pub mod Writing
pub mod Stepping
