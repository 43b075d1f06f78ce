-- Lists that are within a hold of their ramp: what two stops show, how far a question is answered yes, the points kept, the list.
pub mod Shown
pub mod Kept
pub mod Lists
pub mod Promises
pub mod inner
