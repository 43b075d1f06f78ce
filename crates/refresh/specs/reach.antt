pub mod Stretch
pub mod KeptCells
