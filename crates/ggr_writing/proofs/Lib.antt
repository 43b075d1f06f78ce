-- Laws that belong to no one function.
pub mod Checks
pub mod Texts
pub mod Final
pub mod Parts
pub mod Row
pub mod Orders
pub mod ReadBack
pub mod Examples
pub mod Theorems
