-- Laws that belong to no one function.
pub mod Nearness
pub mod Thresholds
pub mod Words
pub mod Halves
pub mod Drawing
pub mod Along
pub mod Rows
pub mod Ends
pub mod Filling
pub mod Renewing
pub mod Bounds
pub mod Checks
pub mod Answers
pub mod Edges
