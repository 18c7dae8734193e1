-- The laws on the two-antenna reader: Ordinals on the ordinal-th record, Seek on the search through one block, Given on the record that an answer
-- tells of, Unique on the contracts, Laws on the two answers together.
pub mod Ordinals
pub mod Seek
pub mod Given
pub mod Unique
pub mod Laws
