-- What is written of a number; what nearest means; the contracts of private steps.
pub mod Written
pub mod Nearest
pub mod inner
