-- Records that may be thinned or refreshed.
pub mod Fitness
