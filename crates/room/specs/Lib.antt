-- The root of the specs: Rooms has the words of the document.
pub mod Rooms
