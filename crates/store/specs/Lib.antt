-- The root of the specs: Taking has the words of the document; Runs the words that the laws add.
pub mod Taking
pub mod Runs
