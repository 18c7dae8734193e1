-- The laws on the storage sheet: Widths has the least signed width, Memories that it holds every memory that is reached, Answers that the answer is unique.
pub mod Widths
pub mod Memories
pub mod Answers
