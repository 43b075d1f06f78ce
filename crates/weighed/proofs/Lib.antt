-- Laws that belong to no one function.
pub mod Counting
pub mod Merging
pub mod Own
pub mod Neighbouring
pub mod Coming
pub mod Stepping
pub mod Gathering
