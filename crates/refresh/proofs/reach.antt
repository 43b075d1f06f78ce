pub mod Sides
pub mod Words
pub mod Unread
pub mod Outer
pub mod Domains
pub mod Given
pub mod Kept
