-- The laws over all crates: Whole has the whole way from a register's bits to a payload, Starred the one table of starred values; Bursts and Loaded have the tests of
-- its rows. Listing has the listings of the empty block and of the document's own.
pub mod Whole
pub mod Bursts
pub mod Loaded
pub mod Starred
pub mod Listing
