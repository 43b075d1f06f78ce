pub mod Whole
pub mod Near
