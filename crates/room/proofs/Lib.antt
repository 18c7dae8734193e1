-- The laws on the room pass.
pub mod Tally
