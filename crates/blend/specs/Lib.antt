pub mod Blend
pub mod Basis
pub mod CatmullRom
pub mod Chords
pub mod Pair
pub mod Points
pub mod Finite
pub mod Channels
