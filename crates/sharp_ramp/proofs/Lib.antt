pub mod Filling
pub mod Laws
pub mod Examples
pub mod Valid
