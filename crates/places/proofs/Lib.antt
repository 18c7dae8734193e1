-- The laws on places: Laws on the bytes of a place, Encode on places as lists of bits, Decode on encodings as stores, Bursts on a place's bits as learning sees them.
pub mod Laws
pub mod Encode
pub mod Decode
pub mod Bursts
