pub mod Lists
pub mod Verdicts
pub mod Conditions
pub mod Promises
pub mod inner
