-- The root of the specs: Phrases has the texts that both programs print.
pub mod Phrases
