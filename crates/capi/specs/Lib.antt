-- The root of the specs: Flat has the answers laid out flat, as C's callers see them; Version the version of the interface.
pub mod Flat
pub mod Version
