pub mod Filling
pub mod Guessing
pub mod Hits
pub mod Orders
pub mod Ends
