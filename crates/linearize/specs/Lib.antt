pub mod Lent
pub mod Desk
pub mod inner
pub mod Promises
pub mod Relist
