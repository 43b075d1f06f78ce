-- What a text is made of, and what reading its parts answers.
pub mod Text
pub mod Places
pub mod Output
pub mod Utf8
