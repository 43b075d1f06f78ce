pub mod Word
pub mod Merging
pub mod Everywhere
