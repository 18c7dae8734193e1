-- The laws on whitening: Bytes is what the loops keep, Laws what whitening comes to.
pub mod Bytes
pub mod Carrying
pub mod Laws
