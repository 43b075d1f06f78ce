pub mod Failing
pub mod Listing
pub mod Walking
pub mod Shaping
pub mod Sampled
pub mod Answering
pub mod Stopwise
pub mod Theorems
