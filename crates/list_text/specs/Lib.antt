-- The root of the specs: Prints has all that the listing program prints, in the document's words.
pub mod Prints
