-- What a segment's line holds, and how segments are kept in lists.
pub mod Line
pub mod Store
pub mod inner
