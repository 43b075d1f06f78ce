pub mod There
pub mod Circle
pub mod Back
pub mod Mix
