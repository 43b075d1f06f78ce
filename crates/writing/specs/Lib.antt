-- What the tool prints.
pub mod Printed
