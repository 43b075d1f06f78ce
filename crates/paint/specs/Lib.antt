pub mod Answers
pub mod Canvas
pub mod Promises
pub mod inner
