pub mod Agree
pub mod Keeping
pub mod EditChecks
pub mod Preparing
pub mod Theorem
pub mod RefreshAnswers
pub mod ThenThinned
pub mod Calls
