pub mod Every
pub mod Ruled
pub mod Summed
pub mod Indexed
pub mod Bent
pub mod Lines
pub mod Rising
