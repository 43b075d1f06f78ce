-- What the header of a GIMP file says.
pub mod Head
pub mod Leads
pub mod inner
