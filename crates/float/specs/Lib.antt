pub mod F32
pub mod Number
pub mod Units
