-- The laws on records and blocks: Cond on tests, Standing on one record, Walk on the parser's turns, Blocks on the records of a block,
-- Brought on what they bring to a meter, Positions on where records and refusals begin, Unique on the contracts.
pub mod Cond
pub mod Standing
pub mod Walk
pub mod Blocks
pub mod Brought
pub mod Unique
pub mod Positions
