-- Laws that belong to no one function.
mod Leads
mod Named
pub mod Fits
