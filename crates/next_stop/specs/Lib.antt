pub mod First
pub mod Step
pub mod Chain
pub mod Single
pub mod inner
