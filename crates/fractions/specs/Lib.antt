-- The root of the specs: Pairs has the words on fractions, Expansion the bits of one, Answers what the public functions answer, Inner the words of
-- private functions.
pub mod Pairs
pub mod Expansion
pub mod Answers
pub mod Inner
