-- The root of the specs: Walks has lead-in and period and what a walk answers, Inner words of private contracts.
pub mod Walks
pub mod Inner
