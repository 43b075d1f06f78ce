pub mod Triangle
pub mod Errors
pub mod Sizes
pub mod Measuring
pub mod Legs
pub mod Numbers
pub mod Theorems
