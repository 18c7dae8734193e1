-- The laws: Answers on what is printed, and that there is one answer.
pub mod Answers
