-- Laws that belong to no one function.
pub mod Gaps
pub mod Rooms
pub mod Lists
pub mod Opening
pub mod Editing
pub mod Rewriting
pub mod Standing
pub mod Turning
pub mod Through
