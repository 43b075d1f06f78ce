pub mod Naming
pub mod Writing
pub mod Sorted
pub mod Printing
pub mod Stepping
pub mod Ends
pub mod Messages
