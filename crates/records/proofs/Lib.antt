-- Laws that belong to no one function.
pub mod Counting
pub mod Marking
pub mod Passing
