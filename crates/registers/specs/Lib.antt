-- The root of the specs: Registers has the words of the document, Answers what the public functions answer, Inner the words of private functions.
pub mod Registers
pub mod Answers
pub mod Inner
