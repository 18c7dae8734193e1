-- The root of the specs: Sums has the words of the contracts.
pub mod Sums
