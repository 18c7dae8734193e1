-- Digits has the laws of numbers as text, Writing those of text written piece by piece, Parsing those of numbers read from text.
pub mod Digits
pub mod Writing
pub mod Parsing
