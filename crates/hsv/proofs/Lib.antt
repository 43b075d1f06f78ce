pub mod Steps
pub mod SignedSums
pub mod Mirror
pub mod FullTurn
pub mod Remainders
