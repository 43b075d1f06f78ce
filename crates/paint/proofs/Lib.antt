pub mod Painting
pub mod Searching
