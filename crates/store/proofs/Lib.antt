-- The laws on taking blocks: Pass on the writing pass over a block, Taking on the cases of taking, Kept on the lists that come of it, After on the store after
-- an answer, Meters on one meter's place, Positions on the place of an answer; Worked has the listing's block.
pub mod Pass
pub mod Taking
pub mod Kept
pub mod After
pub mod Meters
pub mod Worked
pub mod Positions
