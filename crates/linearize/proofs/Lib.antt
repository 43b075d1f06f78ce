-- Laws that belong to no one function.
pub mod Records
pub mod Bounds
pub mod Checks
pub mod Going
pub mod Lists
pub mod Answers
pub mod Relisting
pub mod Calls
