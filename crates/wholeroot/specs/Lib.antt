pub mod WholeRoot
