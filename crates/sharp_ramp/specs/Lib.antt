pub mod Sharp
