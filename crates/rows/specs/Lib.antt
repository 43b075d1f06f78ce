-- A row of numbers, digits alone, and what private functions promise each other.
pub mod Rows
pub mod Digits
pub mod inner
