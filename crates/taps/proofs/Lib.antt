-- The laws on the sums over the taps, and how large a numerator is on the way.
pub mod Adding
pub mod Counting
pub mod Expanding
