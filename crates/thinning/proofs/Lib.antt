-- Laws that belong to no one function.
pub mod Stops
pub mod TwoSides
pub mod Walks
