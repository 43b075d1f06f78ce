pub mod Stores
pub mod Joined
