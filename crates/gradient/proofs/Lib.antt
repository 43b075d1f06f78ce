pub mod Valid
pub mod Same
pub mod GimpSearch
pub mod GimpLaws
pub mod NoGap
pub mod Saved
