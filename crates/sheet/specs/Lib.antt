pub mod Room
pub mod Lists
pub mod Answers
pub mod Promises
pub mod Through
pub mod inner
