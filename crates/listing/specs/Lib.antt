-- The root of the specs: Lines has the listing in the document's words, Pieces the words of private functions.
pub mod Lines
pub mod Pieces
