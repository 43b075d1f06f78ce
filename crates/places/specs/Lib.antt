-- The places of a record's points.
pub mod Places
