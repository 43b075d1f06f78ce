pub mod Lent
pub mod Stops
pub mod Answers
pub mod Place
pub mod Pair
pub mod Near
pub mod Segments
