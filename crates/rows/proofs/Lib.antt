-- Laws that belong to no one function.
pub mod Found
pub mod Words
pub mod Fields
pub mod Numerals
pub mod Numbers
pub mod Read
pub mod Signs
pub mod Longer
