pub mod Gimp
pub mod Ramp
pub mod Joined
pub mod Lent
