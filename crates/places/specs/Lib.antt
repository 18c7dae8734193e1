-- The root of the specs: Places has the words of the document, Appending what appending to a place asks of its caller and comes to.
pub mod Places
pub mod Appending
