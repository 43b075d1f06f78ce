-- What the lines of the gate's inputs stand for.
pub mod Spelling
