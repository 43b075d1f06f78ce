pub mod Root
pub mod Nearest
pub mod Cutoff
pub mod inner
