-- pair, Expansion (its digits are the bits that fit), Words (by wrapping arithmetic), Carrying (a numerator as a
-- natural number, and its digits a word at a time), Existence (every burst has its answer).
pub mod Numerators
pub mod Same
pub mod Lowest
pub mod Order
pub mod Expansion
pub mod Words
pub mod Carrying
pub mod Existence
