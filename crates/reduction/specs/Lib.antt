-- The root of the specs: what the search's functions promise one another. No contract of an entry point cites them.
pub mod Vectors
pub mod Reduced
