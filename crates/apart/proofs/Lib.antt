pub mod Counting
pub mod Checking
pub mod Telling
pub mod Answering
pub mod Theorems
