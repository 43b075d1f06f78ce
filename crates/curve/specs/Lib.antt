pub mod Depth
pub mod Factor
