-- The root of the specs: Text has the words on text as bytes, Numerals what a text says as a number.
pub mod Text
pub mod Numerals
