-- The root of the specs: Block has the words of the document on records and blocks, Steps the walk over a block's records, Named the words that the laws add.
pub mod Block
pub mod Steps
pub mod Named
