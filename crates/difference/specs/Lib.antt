pub mod Difference
pub mod Measure
