pub mod Checks
pub mod Faults
pub mod Answers
pub mod Conditions
pub mod Promises
pub mod inner
