-- The points at which a list is weighed.
pub mod Points
pub mod Gathered
pub mod inner
