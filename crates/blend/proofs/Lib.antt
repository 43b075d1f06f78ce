pub mod Channels
pub mod Curves
pub mod FiniteLists
pub mod Clear
pub mod MixErrors
pub mod MixOff
