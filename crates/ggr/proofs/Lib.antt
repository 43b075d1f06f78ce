-- Laws that belong to no one function.
mod Weighing
mod Filling
mod Fitting
mod Finish
pub mod Given
pub mod Orderly
pub mod Same
