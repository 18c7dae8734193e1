-- The laws on the line of an answer: Digits on hexadecimal digits, Answers on what a line needs of an answer.
pub mod Digits
pub mod Answers
