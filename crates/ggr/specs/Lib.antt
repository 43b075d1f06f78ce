-- What a GIMP gradient file holds, and what reading it answers and writes.
pub mod File
pub mod inner
