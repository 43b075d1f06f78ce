-- Laws and examples that belong to no one function.
pub mod Tens
pub mod Put
pub mod Texts
pub mod Scale
pub mod Near
pub mod Halves
pub mod TakenPlaces
pub mod OwnDigits
pub mod Ranged
pub mod Trip
pub mod Above
pub mod Signs
pub mod Range
pub mod Marks
pub mod NearestNine
pub mod Examples
pub mod Theorems
