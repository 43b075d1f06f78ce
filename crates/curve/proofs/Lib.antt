pub mod Closed
pub mod Sums
pub mod Inside
pub mod Deeper
pub mod Halved
pub mod Falling
pub mod Tested
pub mod Rising
