-- Puts has the laws of bytes that are put into a part.
pub mod Puts
