-- What private functions promise each other: no answer is defined here, and no public contract names it.
pub mod Making
