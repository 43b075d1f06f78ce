-- Laws that belong to no one function.
mod Making
mod Asking
pub mod Fits
mod Plain
mod Heads
pub mod EditedText
pub mod Allowed
mod Parted
mod ChangedLines
pub mod EditedLines
pub mod Written
pub mod EditExample
