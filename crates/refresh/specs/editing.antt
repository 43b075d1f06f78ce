pub mod Edited
pub mod Rules
pub mod Reached
pub mod Copied
pub mod Sound
