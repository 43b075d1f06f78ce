-- Laws that belong to no one function.
pub mod Walking
pub mod Handing
pub mod Chaining
pub mod Numbers
pub mod Faults
pub mod Joining
pub mod Refused
