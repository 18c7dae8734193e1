-- The root of the specs: Bits has the words of the document.
pub mod Bits
