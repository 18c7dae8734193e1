-- The root of the specs: Flat has the library's answers laid out flat.
pub mod Flat
