-- The laws on learning by meter number: that the answer is unique, and depends on the meter's burst alone.
pub mod Answers
