-- Document 01's refusals and limits by name.
pub mod Refusals
pub mod Limits
